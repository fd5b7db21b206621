pub mod FourStates
