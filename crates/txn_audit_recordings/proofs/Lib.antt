mod Lines
mod TokenTables
mod Renamings
