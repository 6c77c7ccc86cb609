mod Hosts
mod Sides
