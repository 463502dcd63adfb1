mod Reversed
mod Codes
