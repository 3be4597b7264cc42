-- how many inputs of a row are true, and the manual's page of them
pub mod Page
