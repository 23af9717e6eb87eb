mod Answered
mod Folded
mod TableNames
