-- In reading order: a chapter uses only chapters above it.
pub mod meanings
pub mod wired
pub mod leaves
pub mod applying
pub mod stages
pub mod regions
pub mod numbers
pub mod run_children
pub mod branches
pub mod ground_forms
pub mod control_forms
pub mod function_forms
pub mod pair_forms
pub mod regular
pub mod regular_and_resting
pub mod assignment_forms
pub mod theorem
