-- what a call that writes answers, returns and leaves in the lent buffer, and how long a record is
pub mod ResultLaws
