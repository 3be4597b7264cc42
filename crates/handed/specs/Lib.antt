-- what is handed back: it, with the corrections made
pub mod Handed
