-- the numbers of gates and witnesses in lent arrays
pub mod Arrays
