pub mod CString
