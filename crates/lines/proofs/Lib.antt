mod Serving
mod Taking
