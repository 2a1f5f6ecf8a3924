pub mod MuteExchange
