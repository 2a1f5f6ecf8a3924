mod Standing
mod Unique
