mod Commits
mod Sessions
mod Firsts
mod Solved
mod Trees
