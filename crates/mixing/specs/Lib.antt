-- Document 01's mix message.
pub mod Mix
