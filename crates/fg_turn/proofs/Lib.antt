mod Views
mod Changes
mod Keeping
mod Follows
