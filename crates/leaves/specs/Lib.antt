-- What the contracts of the leaves cite; how near the sine and the plate's one-pole constants are (Series, Exponential); the worked values.
pub mod OnePole
pub mod Phase
pub mod Lengths
pub mod Position
pub mod Series
pub mod Exponential
pub mod Sine
pub mod Converter
pub mod Noise
pub mod Worked
