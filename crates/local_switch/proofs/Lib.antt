pub mod PoolBits
