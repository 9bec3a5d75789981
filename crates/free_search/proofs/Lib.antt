pub mod FreeLaws
pub mod HoldLaws
pub mod KeyLaws
pub mod MeetLaws
pub mod ReadyLaws
pub mod ValueLaws
