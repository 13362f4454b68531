pub mod AtRest
pub mod Silence
pub mod TcpPeer
