mod Decoding
mod Begun
mod Telling
mod Keeping
mod Starting
