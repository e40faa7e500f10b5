pub mod HistoryLaws
pub mod PlayedLaws
pub mod RoomLaws
pub mod AnswerLaws
pub mod HostDemand
pub mod NumberLaws
pub mod HostLosingReply
pub mod LosingReplyAdvised
