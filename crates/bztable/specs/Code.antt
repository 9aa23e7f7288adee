pub mod PlacesView
