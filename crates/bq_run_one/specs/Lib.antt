pub mod RunSettings
