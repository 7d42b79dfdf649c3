mod Fronts
mod Named
