mod LineRows
mod Owing
mod Shown
mod TurnRows
mod Turns
