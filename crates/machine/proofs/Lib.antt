mod Steps
mod World
mod Quiet
mod Growing
