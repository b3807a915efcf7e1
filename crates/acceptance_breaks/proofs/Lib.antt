pub mod FirstItems
