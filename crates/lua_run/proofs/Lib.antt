mod Answering
mod RunTurns
mod Replies
