pub mod ImageWords
