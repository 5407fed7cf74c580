mod Products
mod Rows
mod Shifts
