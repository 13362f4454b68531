pub mod LaneExchange
pub mod LaneAccount
pub mod Visits
pub mod LaneRun
pub mod LaneStart
pub mod Accepts
pub mod TcpVisits
