pub mod JobLists
