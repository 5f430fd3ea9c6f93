pub mod SoundMoves
pub mod Requests
pub mod Worked
