-- What is said of a call's heap.
pub mod Standing
pub mod Lives
-- What each construct of Lua comes to. Blocks and calls of closures are in `DirectEquations` of `lua_meaning`.
pub mod Parts
pub mod Expressions
pub mod Operators
pub mod Loops
pub mod Statements
pub mod Calls
