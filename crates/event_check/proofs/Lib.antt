mod Telling
mod OneOutput
