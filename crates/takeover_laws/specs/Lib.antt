pub mod SafeTakeovers
pub mod InHand
