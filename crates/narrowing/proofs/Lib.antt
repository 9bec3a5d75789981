mod AloneEnds
mod LaneEnds
mod Copies
mod Noting
pub mod RestNoting
mod LaneCounts
