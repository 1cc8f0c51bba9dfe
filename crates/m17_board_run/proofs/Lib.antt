mod Lists
mod Books
mod Trails
mod Runs
mod Refusing
