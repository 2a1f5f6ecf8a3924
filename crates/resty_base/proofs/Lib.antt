pub mod Results
pub mod Taking
pub mod TextKeys
