-- Records with list and trailer behind them are a trace (Sealing), and any two outcomes agree (Agree).
pub mod Sealing
pub mod Agree
