mod Telling
mod Saying
mod Hearing
mod Writing
mod Asking
