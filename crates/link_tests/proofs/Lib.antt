pub mod LinkedImages
