pub mod Taking
pub mod Cutting
pub mod Dropping
pub mod Feeds
pub mod Serving
pub mod FeedAnswers
