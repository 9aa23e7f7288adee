pub mod SheetText
pub mod SheetView
