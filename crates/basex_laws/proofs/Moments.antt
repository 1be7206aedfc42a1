-- Which refusal is given where, by the encodings alone (specs/Moments.antt): strings, requests, items, responses.
pub mod Order
pub mod Breaking
pub mod Strings
pub mod Texts
pub mod Requests
pub mod Tagged
pub mod Items
pub mod Lists
pub mod Ended
pub mod Responses
pub use Strings.{string_moments}
pub use Requests.{request_moments}
pub use Items.{item_moments}
pub use Responses.{response_moments}
