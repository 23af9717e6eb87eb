pub mod OneCircle
