pub mod ExampleLaws
pub mod PlacesLaws
pub mod StaysLaws
