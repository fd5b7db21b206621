mod PlacesOut
mod PlacesIn
