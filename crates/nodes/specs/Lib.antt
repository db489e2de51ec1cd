-- What the contracts of `nodes` cite: what a block run asks (Ready). Scaffolding.
pub mod Ready
