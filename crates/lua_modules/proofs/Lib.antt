mod Causes
mod Sound
mod Adding
mod Held
mod Growing
mod GoingOn
