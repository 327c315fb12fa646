pub mod Numbers
pub mod OneByOne
