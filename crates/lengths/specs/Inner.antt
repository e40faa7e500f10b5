pub mod Leads
pub mod Search
pub mod FormLengths
