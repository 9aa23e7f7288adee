pub mod ByPlaces
pub mod Lists
