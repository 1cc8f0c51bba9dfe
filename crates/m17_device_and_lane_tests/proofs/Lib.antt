mod Grids
mod Prefixes
