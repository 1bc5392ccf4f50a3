-- What is due between each two processes, and that each take and each answer pays a part of it.
pub mod Sums
pub mod Dues
pub mod Steps
pub mod Theorem
pub mod Attained
pub mod Settling
