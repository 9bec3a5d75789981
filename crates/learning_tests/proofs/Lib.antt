mod SmallSums
mod Zeros
mod Serving
