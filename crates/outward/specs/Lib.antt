-- loads along which wires go outward
pub mod Outward
