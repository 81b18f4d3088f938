mod Laws
pub mod Results
