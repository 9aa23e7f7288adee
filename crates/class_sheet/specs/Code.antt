pub mod SheetView
